mod InPartsLemmas
