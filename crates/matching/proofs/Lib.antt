mod Bodies
mod Deciding
pub mod Laws
mod Meetings
mod Roads
