-- what a reader must believe: what a pattern needs, what its attempts cost in a line, and what that means
pub mod Needs
pub mod LineCosts
pub mod Lacking
pub mod NeedsLaw
pub mod Characters
pub mod Fronts
pub mod Nonblanks
pub mod Endings
pub mod Spreads
pub mod LineNeeds
-- what only code and proofs cite
pub mod Asking
pub mod Growths
