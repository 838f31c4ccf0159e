-- Examples of the task of a request.
pub mod Cases
