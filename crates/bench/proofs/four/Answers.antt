use Rattle.bench.proofs.four.Goals as goal

pub returns-clause-means : goal.returns-clause-means
returns-clause-means c = simp (c.new.ensures, c.new-2.ensures, c.new-3.ensures, c.new-4.ensures)
