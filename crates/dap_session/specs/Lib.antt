pub mod PrivateQuerying
pub mod SessionCalls
pub mod PrivateReplies
pub mod PrivateEmitting
pub mod PrivateResponding
pub mod PrivateOwn
pub mod PrivateAsking
