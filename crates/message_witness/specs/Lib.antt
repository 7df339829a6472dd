pub mod OneMessage
