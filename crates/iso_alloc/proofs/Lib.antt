mod ArgumentLemmas
mod PlanLemmas
