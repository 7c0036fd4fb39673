pub mod Forms
pub mod SettingGrammar
pub mod NodeGrammar
pub mod VrfGrammar
pub mod SiteGrammar
pub mod ScenarioGrammar
pub mod scenario_draft
