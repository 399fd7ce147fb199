pub mod RulesOrder
