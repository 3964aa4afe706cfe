-- What is the same of two sheets that a pass can hardly tell apart: costs (Costs), cells (Rows), what is left in the buffers (Buffers); and what bars
-- change (Bars).
pub mod Costs
pub mod Rows
pub mod Buffers
pub mod Bars
