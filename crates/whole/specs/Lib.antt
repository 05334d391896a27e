-- what is to be believed
pub mod Sign
pub mod Flag
pub mod Choice
pub mod InTurn
pub mod Divisor
pub mod Poly
pub mod Fraction
pub mod Within
-- what the code's inner functions say
pub mod EitherWay
-- laws: the ring and the order of ℤ, and ways to prove in them
pub mod Laws
pub mod Ring
pub mod Reify
pub mod Order
pub mod Cert
pub mod Linear
-- those ways, tried
pub mod Trials
-- laws: numbers of the code
pub mod Bound
pub mod Flat
pub mod Tests
-- laws: the definitions
pub mod SignLaws
pub mod ChoiceLaws
pub mod InTurnLaws
pub mod DivisorLaws
pub mod PolyLaws
pub mod PolyBound
pub mod Lead
pub mod FractionLaws
