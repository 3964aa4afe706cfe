-- Grading a site's choice (request F-8): what is answered and left (Graded), what the stages add up to (Grading), and that what is called least is
-- least, and each least choice can be shown (Least).
pub mod Graded
pub mod Grading
pub mod Least
