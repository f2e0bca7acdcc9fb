mod CallLemmas
mod CutLemmas
mod RulePiecesLemmas
