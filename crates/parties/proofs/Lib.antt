-- Two parties: the calls' ways out; a call of a party is answered by what it sees, in one way, so two runs that show it the same give it the same; what is kept
-- from call to call, and so at every moment.
pub mod Starting
pub mod Views
pub mod Isolation
pub mod Asking
pub mod Taking
pub mod Examples
pub mod Totals
pub mod Account
pub mod Standings
pub mod Onward
pub mod Answers
pub mod Statements
pub mod Drops
