pub mod ServedRows
mod QueryBodies
