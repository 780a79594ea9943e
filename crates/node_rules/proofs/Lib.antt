pub mod RulesOver
pub mod Facts
pub mod FormulaSets
pub mod NodeRules
