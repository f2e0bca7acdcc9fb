mod MarkRuns
