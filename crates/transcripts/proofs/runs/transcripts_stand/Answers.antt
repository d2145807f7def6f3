use Rattle.transcripts.proofs.Determined.{one_rounds, one_transcript, some_rounds, some_transcript}
use Rattle.transcripts.proofs.runs.transcripts_stand.Goals as goal

pub returns-clause-some : goal.returns-clause-some
returns-clause-some g c = some_transcript g.F.Sums.symbols

pub returns-clause-only : goal.returns-clause-only
returns-clause-only g c = one_transcript g.F.Sums.symbols

pub returns-clause-some_rounds : goal.returns-clause-some_rounds
returns-clause-some_rounds g c = some_rounds g.F.Sums.symbols

pub returns-clause-only_rounds : goal.returns-clause-only_rounds
returns-clause-only_rounds g c = one_rounds g.F.Sums.symbols
