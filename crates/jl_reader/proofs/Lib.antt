pub mod StaysTurns
pub mod StaysMachine
pub mod Tokens
pub mod Answered
pub mod OneAnswer
pub mod Ended
