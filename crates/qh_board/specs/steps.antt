-- Definitions that private clauses cite: the seats at the table, and the rule that holds between any two steps.
pub mod Views
pub mod Seats
pub mod Shown
pub mod Rule
