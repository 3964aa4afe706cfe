-- Document 02, request F-14, "Adding a bar".
--   two sheets that agree but in bars; one more bar           Agree
--   they have the same counts, and are alike but in bars      Clear, SameCounts, SameRecords, Barred
--   one more bar changes one cell; the total never falls      Barred
--   the claim of two passes                                   NeverCheaper
pub mod Agree
pub mod SameRecords
pub mod NeverCheaper
