-- What prices show of a choice (request F-8): the definition (Shown), that what is shown is least (Sound), that every least choice can be shown
-- (Complete), and what the code is handed (Fits).
pub mod Shown
pub mod Sound
pub mod Complete
pub mod Fits
pub mod Refusals
