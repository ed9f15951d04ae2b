-- The order of candidates, and the records of zeros that the scratch is left with.
use Rattle.std.specs.Prelude.{[], replicate}
use Rattle.queue.specs.Orders.{Lex}
use Rattle.queue.specs.declared.rank.Upper.{Upper}
use Rattle.engine.specs.declared.records.Candidate.{Candidate}

-- by bound, and equal bounds by accession number
abbrev pub ByBound : Candidate → Candidate → Type 0
ByBound x y = Lex x.bound x.accession y.bound y.accession

abbrev pub blank_candidate : Candidate
blank_candidate = record { bound = 0; accession = 0; slot = 0; order = replicate 8 0; entries = replicate 8 0; measured = 0 }

abbrev pub blank_upper : Upper
blank_upper = record { 0 = 0 }

-- what stands past the end of a list of candidates
abbrev pub no_candidate : Candidate
no_candidate = record { bound = 0; accession = 0; slot = 0; order = []; entries = []; measured = 0 }
