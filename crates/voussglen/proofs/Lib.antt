-- What the structs of the boundary say of an access.
pub mod EffectAnswers
