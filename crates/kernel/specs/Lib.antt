-- nothing is to be believed: what its public functions say is said in sheet/specs
-- what the code's inner functions say
pub mod Bounds
pub mod Forms
pub mod Stretches
pub mod Joints
-- laws
pub mod Accepts
pub mod Kinds
pub mod SkewEnds
pub mod JointsLaws
pub mod CornerLaws
