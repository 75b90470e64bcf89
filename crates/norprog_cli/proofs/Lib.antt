mod GatheredLemmas
mod EndsLemmas
