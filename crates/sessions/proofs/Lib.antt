-- The limits left in a session: what is fit, a question's ways out, and limits lowered by an offer.
pub mod Fitting
pub mod Asking
pub mod Lowering
