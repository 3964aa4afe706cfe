-- What is known of the choice that is asked for.
--   Beats       the recursion beats every choice
--   Found       so it finds the foremost one, and there is no other
--   Chosen      theorems of the recursion: a choice, least, most cars sent, lowest, unique, monotone in the cells
--   Lowest      the same where nobody is counted as standing, which the method finds
--   MarkedLaws  the choice by lowest columns of marked cells
--   PriceLaws   prices of rows and columns: weak duality
--   PricesExist prices with which every least choice is tight
pub mod Beats
pub mod Found
pub mod Chosen
pub mod Lowest
pub mod MarkedLaws
pub mod PriceLaws
pub mod PricesExist
