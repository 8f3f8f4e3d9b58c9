pub mod ConnectionState
pub mod Connection
pub mod PrivateSteps
