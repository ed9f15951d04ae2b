-- A question that fits an index is posed: what a history holds is sound.
use Rattle.std.proofs.Common.{◌≡◌, ℕ, ◌<◌, ◌≤◌, List, [], length, get_or, sym, refl, ap, ◌∙◌, subst, arith}
use Rattle.std.proofs.ByRecursion.{All-from_get_or}
use Rattle.metric.specs.Model.{Model, Row}
use Rattle.metric.specs.Channels.{at, AllLawful}
use Rattle.aggregate.specs.Aggregates.{LawfulAggregate}
use Rattle.patch.specs.Patches.{Patch, patch_width}
use Rattle.refine.specs.Questions.{Question, Contents, Fits, Sound, Posed, Alike, Same}
use Rattle.refine.proofs.Tables.{widths_same}
use Rattle.index.specs.declared.counts.Counts.{Counts}
use Rattle.index.specs.History.{Call, no_patch, held, pivots, Holds, worked}
use Rattle.index.specs.Image.{Kept}
use Rattle.index.proofs.Readings.{holds_channels}
use Rattle.index.proofs.Histories.{holds_shows}
use Rattle.promise.specs.Promise.{contents, Reply, Other}
use Rattle.promise.proofs.Counted.{two_from_getD}

-- what is in order is sound
pub sound : (ms : List Model) (cap : ℕ) (ps : List Patch) (pv : ℕ → List (List ℕ)) → Kept ms cap ps pv → Sound ms (record { patches = ps; pivots = pv })
sound ms cap ps pv kept = record {
  patches = All-from_get_or (λ (o : Patch). Row (patch_width ms) o.rows) ps no_patch kept.rows;
  distinct = two_from_getD (λ (o p : Patch). o.accession ≡ p.accession → ⊥) ps no_patch (λ i j l h e. omega (arith, kept.once i j (omega arith) h e));
  pivots = λ c l. All-from_get_or (Row (at ms c).width) (pv c) [] (λ p h. kept.pivots c p l h);
}

pub posed : (ms : List Model) (k : Counts) (b b₀ : List ℕ) (cap : ℕ) (h : List Call) (q : Question)
    → 1 ≤ length ms → AllLawful ms → LawfulAggregate q.aggregate → Fits ms q → Holds ms k b cap b₀ h → Posed ms (contents ms cap h) q
posed ms k b b₀ cap h q some law agg fits hold = record {
  some = some;
  few = holds_channels ms cap k b b₀ h hold;
  metrics = law;
  aggregate = agg;
  fits = fits;
  sound = sound ms cap (held ms cap h) (pivots ms cap h) (holds_shows ms cap k b b₀ h hold).1;
}

-- the same question fits metrics that are alike
pub fits_too : (ms ms' : List Model) (q q' : Question) → Alike ms ms' → Same q q' → Fits ms q → Fits ms' q'
fits_too ms ms' q q' alike like fits =
    let w = widths_same ms ms' alike in
    let e = like.rows in
    record {
      rows = record { long = sym (ap length e) ∙ fits.rows.long ∙ w; bytes = subst (λ (r : List ℕ). (k : ℕ) → get_or r k 0 < 256) e fits.rows.bytes };
      weights = sym (ap length like.weights) ∙ fits.weights ∙ alike.count;
      small = subst (λ (r : List ℕ). (c : ℕ) → get_or r c 0 < 256) like.weights fits.small;
      some = omega (arith, fits.some, like.k);
    }

-- what is posed to an index is posed to any other
pub other_posed : (ms : List Model) (s : Contents) (q : Question) → Fits ms q
    → (ms' : List Model) (cap' : ℕ) (b' : List ℕ) (h' : List Call) (q' : Question) (budget' : ℕ) (r' : Reply)
    → Other ms s q ms' cap' b' h' q' budget' r' → Posed ms' (contents ms' cap' h') q'
other_posed ms s q fits ms' cap' b' h' q' budget' r' o =
    let w = worked ms' cap' b' h' in
    posed ms' w.counts w.bytes b' cap' h' q' o.some o.lawful o.aggregate (fits_too ms ms' q q' o.alike o.same fits)
    (record { granted = o.made; fit = o.fit; left = refl })
