pub mod Ranks
pub mod RankLaws
pub mod TurnLaws
