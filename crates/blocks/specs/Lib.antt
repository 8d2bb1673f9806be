-- The settings of a few options side by side: what each costs, and which of them keep a clause, as one word.
pub mod Blocks
