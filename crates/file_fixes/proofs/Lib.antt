pub mod AllFaultLaws
pub mod EditLaws
pub mod FaultLaws
pub mod LiteralLaws
pub mod RoundLaws
pub mod WalkLaws
