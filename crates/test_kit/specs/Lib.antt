pub mod Stubborn
