-- What each test says of the promise (Fits), and that the plain matcher chooses as the fast one does (AsTheFast).
pub mod Fits
pub mod AsTheFast
