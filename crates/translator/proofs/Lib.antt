mod Spans
mod Progress
mod Telling
mod Parsing
mod Turns
mod Handing
mod Concluding
mod Grouping
pub mod Deciding
pub mod Counted
mod Writing
mod Naming
mod Rooms
pub mod Verdicts
pub mod Given
pub mod Replies
pub mod Zero
pub mod Renumbering
pub mod Agreement
pub mod Rules
pub mod Larger
pub mod NamesGiven
