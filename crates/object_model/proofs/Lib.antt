pub mod JournalLaws
mod MemberPlaces
pub mod MembersKept
pub mod ProperMembers
mod PlainAnswers
mod StepsByPlace
pub mod Suits
mod TextMembers
