use Rattle.stripe_file.proofs.file.load.Goals as goal

pub returns-clause-file : goal.returns-clause-file
returns-clause-file g c = c.fill_in.ensures.file _ c.read_sources.ensures.file
