mod EscapesLemmas
