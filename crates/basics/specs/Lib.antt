-- The limits of 01, and the one vocabulary of replies.
pub mod Limits
pub mod Replies
