pub mod AtPlaces
pub mod Effects
pub mod Held
pub mod Calendars
pub mod Rows
pub mod Bringing
pub mod DayByDay
pub mod Declared
pub mod Starting
pub mod Leasts
pub mod Ahead
pub mod Adding
pub mod Once
pub mod Gathered
pub mod InOrder
mod StepsKeep
mod Turns
mod EarlyDates
mod Played
mod Lasting
mod Fixed
mod AsBelieved
mod Worked
