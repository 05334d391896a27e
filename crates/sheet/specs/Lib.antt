-- what is to be believed
pub mod Limits
pub mod Figure
pub mod Refusal
pub mod Refused
pub mod RefusalTable
pub mod Points
pub mod PointFacts
pub mod Ends
pub mod Signs
pub mod Circle
pub mod Crossing
pub mod Joint
pub mod Extent
pub mod Lists
pub mod Lent
pub mod Answers
pub mod Tags
-- worked on them
pub mod Cases
pub mod WorkedObjects
pub mod WorkedPoints
pub mod WorkedRefusals
pub mod WorkedAnswers
pub mod WorkedReach
pub mod WorkedCircle
pub mod WorkedJoints
pub mod WorkedExtents
-- what the code's inner functions say
pub mod PointSizes
pub mod Coefficients
pub mod CirclePoints
pub mod CircleForms
pub mod Meetings
pub mod Listable
-- laws: objects and points
pub mod Flags
pub mod PointsLaws
pub mod AcceptsLaws
pub mod TagLaws
-- laws: signs
pub mod Expansions
pub mod InsideLaws
-- laws: lists and answers
pub mod ListsLaws
pub mod LentLaws
pub mod RefusedLaws
pub mod AnswersLaws
