mod NotedLemmas
mod SetLemmas
mod ListLemmas
mod KindLemmas
mod LineLemmas
