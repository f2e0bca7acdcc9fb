mod ScanLemmas
mod WordLemmas
