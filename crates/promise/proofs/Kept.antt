-- The step engine over the bytes of a store keeps what a search promises.
use Rattle.std.proofs.Common.{◌≡◌, ℕ, ◌≤◌, true, List, map, length, sym, ◌∙◌, subst, arith}
use mathlib.Core.List.{IsPrefix}
use Rattle.metric.specs.Model.{Model}
use Rattle.metric.specs.Channels.{Asked, AllLawful}
use Rattle.aggregate.specs.Aggregates.{LawfulAggregate}
use Rattle.patch.specs.Patches.{few}
use Rattle.patch.proofs.Widths.{few_all}
use Rattle.refine.specs.Theorems.{image, OneBegins}
use Rattle.refine.specs.Questions.{Question, Contents, Fits, Posed, neighbor, scan}
use Rattle.refine.specs.Searches.{Answered}
use Rattle.refine.proofs.Tables.{posed_refinable, searches_end, searches_agree, scan_is_one}
use Rattle.index.specs.declared.counts.Counts.{Counts}
use Rattle.index.specs.Asks.{AddsOnly}
use Rattle.index.specs.History.{Call, held, pivots, Holds}
use Rattle.index.proofs.Readings.{holds_reads, holds_channels}
use Rattle.engine.specs.declared.records.Answer.{Answer}
use Rattle.engine.specs.declared.records.Neighbor.{Neighbor}
use Rattle.engine.specs.Outcomes.{asking, Ran}
use Rattle.promise.specs.Held.{held_tables, NearAsks}
use Rattle.promise.specs.Promise.{contents, Reply, reply, ByRule, Other, MayAsk, Promise}
use Rattle.promise.proofs.Posing.{posed, other_posed}
use Rattle.promise.proofs.Slots.{patch_at}
use Rattle.promise.proofs.Runs.{searched, admits, listed}
use Rattle.promise.proofs.Asks.{asks_may}

-- a reply by the step rule, to a question that is posed, keeps the promise
module _ (ms : List Model) (s : Contents) (q : Question) (budget : ℕ) (r : Reply) (ok : Posed ms s q) (rule : ByRule ms s q budget r) where
  ends : Answered ms s q budget r.complete rule.end
  ends = searches_end ms s q budget ok r.complete rule.end rule.run

  agree : (ms' : List Model) (cap' : ℕ) (b' : List ℕ) (h' : List Call) (q' : Question) (budget' : ℕ) (r' : Reply)
      → Other ms s q ms' cap' b' h' q' budget' r' → OneBegins r.neighbors r'.neighbors
  agree ms' cap' b' h' q' budget' r' o =
      let ok' = other_posed ms s q ok.fits ms' cap' b' h' q' budget' r' o in
      let p = rule.neighbors in
      let p' = o.rule.neighbors in
      subst (λ (l : List (ℕ × ℕ)). OneBegins l r'.neighbors) (sym p)
      (subst (λ (l : List (ℕ × ℕ)). OneBegins (map (neighbor ms q) rule.end.named) l) (sym p')
      (searches_agree ms ms' s (contents ms' cap' h') q q' budget budget' ok ok' o.alike o.same o.patches
      r.complete r'.complete rule.end o.rule.end rule.run o.rule.run))

  other_scan : (ms' : List Model) (cap' : ℕ) (b' : List ℕ) (h' : List Call) (q' : Question) (budget' : ℕ) (r' : Reply)
      → Other ms s q ms' cap' b' h' q' budget' r' → r'.complete ≡ true → r'.neighbors ≡ scan ms q s.patches
  other_scan ms' cap' b' h' q' budget' r' o done =
      let s' = contents ms' cap' h' in
      let ok' = other_posed ms s q ok.fits ms' cap' b' h' q' budget' r' o in
      o.rule.neighbors
      ∙ (searches_end ms' s' q' budget' ok' r'.complete o.rule.end o.rule.run).whole done
      ∙ sym (scan_is_one ms ms' s q q' ok o.alike o.same s'.patches o.patches)

  promised : (before after : Asked) → AddsOnly before after (MayAsk ms s q rule.end) → Promise ms s q budget r before after
  promised before after asks = record {
    rule = rule;
    agrees = agree;
    other = other_scan;
    finished = λ done. rule.neighbors ∙ ends.whole done;
    begins = subst (λ (l : List (ℕ × ℕ)). IsPrefix l (scan ms q s.patches)) (sym rule.neighbors) ends.begins;
    count = rule.measured ∙ ends.outcome.count;
    enough = ends.outcome.enough;
    afforded = ends.outcome.afforded;
    asks = asks;
    least = λ plan settles. (let m = rule.measured in let l = ends.least plan settles in omega arith);
  }

-- a search of all the channels of a set
kept_all : (ms : List Model) (k : Counts) (b b₀ : List ℕ) (cap : ℕ) (h : List Call) (q : Question) (budget : ℕ)
    → 1 ≤ length ms → AllLawful ms → LawfulAggregate q.aggregate → Fits ms q
    → Holds ms k b cap b₀ h
    → (a : Answer) (hits hits' : List Neighbor) (before between after : Asked)
    → AddsOnly before between (NearAsks ms k b q.rows)
    → Ran (held_tables ms k b q.rows) (asking q.weights q.aggregate q.k q.radius budget) a hits hits' between after
    → Promise ms (contents ms cap h) q budget (reply a hits') before after
kept_all ms k b b₀ cap h q budget some law agg fits hold a hits hits' before between after near ran =
    let ps = held ms cap h in
    let pv = pivots ms cap h in
    let rd = holds_reads ms cap k b b₀ h hold in
    let ok = posed ms k b b₀ cap h q some law agg fits hold in
    promised ms (contents ms cap h) q budget (reply a hits') ok
    (record {
      end = image (patch_at ms cap ps pv k b rd) ran.end;
      run = searched ms cap ps pv k b rd law q budget a.complete ran.end ran.run;
      neighbors = listed ms cap ps pv k b rd law q budget (posed_refinable ms (contents ms cap h) q ok).distances a hits hits' between after ran;
      measured = ran.measured;
      admitted = ran.admitted ∙ admits ms cap ps pv k b rd law q budget;
    })
    before after
    (asks_may ms cap ps pv k b rd law q budget ran.end before between after near ran.asks)

pub kept : (ms : List Model) (k : Counts) (b b₀ : List ℕ) (cap : ℕ) (h : List Call) (q : Question) (budget : ℕ)
    → 1 ≤ length ms → AllLawful ms → LawfulAggregate q.aggregate → Fits (few ms) q
    → Holds ms k b cap b₀ h
    → (a : Answer) (hits hits' : List Neighbor) (before between after : Asked)
    → AddsOnly before between (NearAsks (few ms) k b q.rows)
    → Ran (held_tables (few ms) k b q.rows) (asking q.weights q.aggregate q.k q.radius budget) a hits hits' between after
    → Promise ms (contents ms cap h) q budget (reply a hits') before after
kept ms k b b₀ cap h q budget some law agg fits hold a hits hits' before between after near ran =
    let e = few_all ms (holds_channels ms cap k b b₀ h hold) in
    kept_all ms k b b₀ cap h q budget some law agg (subst (λ (l : List Model). Fits l q) e fits) hold a hits hits' before between after
    (subst (λ (l : List Model). AddsOnly before between (NearAsks l k b q.rows)) e near)
    (subst (λ (l : List Model). Ran (held_tables l k b q.rows) (asking q.weights q.aggregate q.k q.radius budget) a hits hits' between after) e ran)
