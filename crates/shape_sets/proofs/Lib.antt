pub mod PlaneLemmas
