-- What start answers, and the work words afterwards, as document 01 says it.
pub mod Start
pub mod Numbers
-- what every work word holds after start and after each step: score words, and the tables of a session
pub mod ScoreWords
pub mod Tables
pub mod WorkWords
-- what only start's own functions speak of
pub mod Noting
