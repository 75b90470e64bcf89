mod RunLemmas
mod SpanLemmas
mod UnitRuns
mod Within
