-- The tables of a question: lawful chains, whose finished list is the full scan; and one full scan for all indexes that measure alike.
use Rattle.std.proofs.Common.{◌≡◌, ℕ, zero, suc, ◌+◌, ◌*◌, ◌<◌, ◌≤◌, leb, List, [], ◌∷◌, map, length, get_or, take, drop, sum_by, sym, refl, ap, ◌∙◌, subst, ap₂, arith, take_all}
use mathlib.Core.List.{IsPrefix}
use Rattle.std.specs.List.{range_with_len, AllByRecursion as Every}
use Rattle.std.proofs.ByRecursion.{All-weaker, All-take, all_kept_by}
use Rattle.std.proofs.lemmas.List.Sums.{sum_by_more}
use Rattle.metric.specs.Model.{Model, Row}
use Rattle.metric.specs.Channels.{at, no_model}
use Rattle.patch.specs.Patches.{Patch, width_of, patch_width, offset, row, distance_in, weighted, all_weighted}
use Rattle.patch.proofs.Rows.{row_is_row as cut_row}
use Rattle.refine.specs.Chains.{Table, LawfulFamily, distance}
use Rattle.refine.specs.Scan.{ranking, finished}
use Rattle.refine.specs.OrderLaws.{numbers, keys}
use Rattle.refine.specs.Bounds.{Bracketed, upper_of}
use Rattle.refine.specs.Questions.{Question, Contents, distance_to, neighbor, scan, near, far, channels, family, refined, Posed, Alike, Same}
use Rattle.refine.specs.Searches.{Refinable, PosedRefinable, ScanIsOne, SearchesEnd, SearchesAgree}
use Rattle.refine.proofs.Reorders.{Reordered, same, reordered, perm_all}
use Rattle.refine.proofs.Lists.{two_weaker, map_same, fronts, front_map}
use Rattle.refine.proofs.Ranks.{rank_perm}
use Rattle.refine.proofs.Main.{finished_alike}
use Rattle.refine.proofs.Families.{tame, runs_end, need_is_least}
use Rattle.refine.proofs.Channels.{between_bounds, dists_asked, channels_to_chains, same_counting}

-- ---- the row of a channel is a row

pub row_is_row : (ms : List Model) (c : ℕ) → c < length ms → (x : List ℕ) → Row (patch_width ms) x → Row (at ms c).width (row ms c x)
row_is_row ms c h x r = cut_row ms c h x r.long r.bytes

upper_le : (top : ℕ) (ds es : List ℕ) → upper_of top ds es ≤ top
upper_le top [] es = omega arith
upper_le top (d ∷ ds) [] = omega arith
upper_le top (d ∷ ds) (e ∷ es) = let ih = upper_le top ds es in omega arith

-- ---- one index

module _ (ms : List Model) (s : Contents) (q : Question) (ok : Posed ms s q) where
  pub bracketed : (o : Patch) → Row (patch_width ms) o.rows → (c : ℕ) → c < length ms → Bracketed (channels ms q s.pivots o c)
  bracketed o r c h =
      let law = ok.metrics c h in
      let b = between_bounds (at ms c) law.symmetric law.triangle law.bounded (row ms c q.rows) (row ms c o.rows)
      (row_is_row ms c h q.rows ok.fits.rows) (row_is_row ms c h o.rows r) (s.pivots c) (ok.sound.pivots c h) in
      record {
        lower = b.0;
        upper = b.1;
        small = omega (arith, upper_le (at ms c).top (near ms q s.pivots c) (far ms q s.pivots c o), law.small);
        weight = omega (arith, ok.fits.small c);
      }

  chains : LawfulFamily (family ms q s.pivots) s.patches × Every (λ o. distance (family ms q s.pivots) o ≡ distance_to ms q o) s.patches
  chains = channels_to_chains Patch ℕ numbers (λ (o : Patch). o.accession) q.aggregate (length ms) (channels ms q s.pivots) s.patches
      ok.aggregate ok.some ok.few (All-weaker _ _ bracketed s.patches ok.sound.patches) ok.sound.distinct

  -- the full scan as a table, by distances alone
  abbrev scanned : Table Patch (ℕ × ℕ)
  scanned = record { ord = keys numbers; key = λ o t. (distance_to ms q o, o.accession); m = 0; within = λ y. leb y.0 q.radius }

  pub refinable : Refinable ms s q
  refinable = record {
    lawful = chains.0;
    distances = chains.1;
    scans = ap (map (neighbor ms q))
        (finished_alike (refined ms q s.pivots) scanned.key 0 q.k same (tame (family ms q s.pivots) q.radius s.patches chains.0).apart
        (All-weaker _ _ (λ o e. ap (λ n. (n, o.accession)) e) s.patches chains.1));
  }

pub posed_refinable : PosedRefinable
posed_refinable ms s q ok = refinable ms s q ok

-- ---- two indexes that measure alike

module _ (ms ms' : List Model) (alike : Alike ms ms') where
  offsets : (c : ℕ) → c ≤ length ms → offset ms c ≡ offset ms' c
  offsets zero h = refl
  offsets (suc c) h =
      let n = alike.count in
      let e : c + 1 ≡ suc c = omega arith in
      let a = sum_by_more width_of ms c no_model (omega arith) in
      let b = sum_by_more width_of ms' c no_model (omega arith) in
      let ih = offsets c (omega arith) in
      let w = alike.widths c (omega arith) in
      let z : offset ms (c + 1) ≡ offset ms' (c + 1) = omega arith in
      rw e at z

  rows_same : (c : ℕ) → c < length ms → (x : List ℕ) → row ms c x ≡ row ms' c x
  rows_same c h x = ap₂ (λ n k. take n (drop k x)) (alike.widths c h) (offsets c (omega arith))

  in_same : (x x' y : List ℕ) → x ≡ x' → Row (patch_width ms) x → Row (patch_width ms) y → (c : ℕ) → c < length ms → distance_in ms x y c ≡ distance_in ms' x' y c
  in_same x x' y e r u c h =
      alike.distances c h (row ms c x) (row ms c y) (row_is_row ms c h x r) (row_is_row ms c h y u)
      ∙ ap₂ (at ms' c).dist (rows_same c h x ∙ ap (row ms' c) e) (rows_same c h y)

  wide : (l : List Model) → patch_width l ≡ offset l (length l)
  wide l = ap (sum_by width_of) (sym (take_all (length l) l (omega arith)))

  pub widths_same : patch_width ms ≡ patch_width ms'
  widths_same = wide ms ∙ offsets (length ms) (omega arith) ∙ ap (offset ms') alike.count ∙ sym (wide ms')

module _ (ms ms' : List Model) (s : Contents) (q q' : Question) (ok : Posed ms s q) (alike : Alike ms ms') (like : Same q q') where
  distances_same : (o : Patch) → Row (patch_width ms) o.rows → distance_to ms q o ≡ distance_to ms' q' o
  distances_same o u =
      like.aggregate (all_weighted ms q.weights q.rows o.rows) (dists_asked q.aggregate ok.aggregate (length ms) ok.some ok.few (channels ms q s.pivots o) (bracketed ms s q ok o u))
      ∙ ap q'.aggregate
      (same_counting (weighted ms q.weights q.rows o.rows) (weighted ms' q'.weights q'.rows o.rows) (length ms)
      (λ c h. ap₂ (λ w d. w * d) (ap (λ ws. get_or ws c 0) like.weights) (in_same ms ms' alike q.rows q'.rows o.rows like.rows ok.fits.rows u c h))
      ∙ ap (λ (n : ℕ). map (weighted ms' q'.weights q'.rows o.rows) (range_with_len 0 n)) alike.count)

  scans_same : (l' : List Patch) → Reordered s.patches l' → scan ms q s.patches ≡ scan ms' q' l'
  scans_same l' p =
      map_same (neighbor ms q) (neighbor ms' q') (finished (scanned ms s q ok) q.k s.patches)
      (All-take _ q.k _ (all_kept_by _ _ (ranking (scanned ms s q ok) s.patches) (perm_all _ (rank_perm (scanned ms s q ok) s.patches) neighbors)))
      ∙ ap (map (neighbor ms' q')) (lists ∙ ap₂ (λ (k R : ℕ). finished (record { ord = keys numbers; key = key'; m = 0; within = λ y. leb y.0 R }) k l') like.k like.radius)
    where
      key' : Patch → ℕ → ℕ × ℕ
      key' o t = (distance_to ms' q' o, o.accession)

      neighbors : Every (λ o. neighbor ms q o ≡ neighbor ms' q' o) s.patches
      neighbors = All-weaker _ _ (λ o u. ap (λ n. (o.accession, n)) (distances_same o u)) s.patches ok.sound.patches

      lists : finished (scanned ms s q ok) q.k s.patches ≡ finished (record { ord = keys numbers; key = key'; m = 0; within = λ y. leb y.0 q.radius }) q.k l'
      lists = finished_alike (scanned ms s q ok) key' 0 q.k p
          (two_weaker _ _ (λ a b h t u e. h (ap (λ x. x.1) e)) s.patches ok.sound.distinct)
          (All-weaker _ _ (λ o u. ap (λ n. (n, o.accession)) (distances_same o u)) s.patches ok.sound.patches)

pub scan_is_one : ScanIsOne
scan_is_one ms ms' s q q' ok alike like l' p = scans_same ms ms' s q q' ok alike like l' (reordered p)

-- ---- searches

pub searches_end : SearchesEnd
searches_end ms s q budget ok b e r =
    let x = refined ms q s.pivots in
    let z = refinable ms s q ok in
    let o = (runs_end Patch ℕ (family ms q s.pivots) s.patches q.k q.radius budget z.lawful ok.fits.some).0 b e r in
    record {
      outcome = o;
      begins = subst (λ w. IsPrefix (map (neighbor ms q) e.named) w) z.scans (front_map (neighbor ms q) e.named (finished x q.k s.patches) o.begins);
      whole = λ h. ap (map (neighbor ms q)) (o.whole h) ∙ z.scans;
      least = λ plan h.
          let n = need_is_least Patch ℕ (family ms q s.pivots) s.patches q.k q.radius z.lawful ok.fits.some plan h in
          let c = o.count in
          omega arith;
    }

pub searches_agree : SearchesAgree
searches_agree ms ms' s s' q q' budget budget' ok ok' alike like p b b' e e' r r' =
    fronts (map (neighbor ms q) e.named) (map (neighbor ms' q') e'.named) (scan ms' q' s'.patches)
    (subst (λ w. IsPrefix (map (neighbor ms q) e.named) w) (scan_is_one ms ms' s q q' ok alike like s'.patches p) (searches_end ms s q budget ok b e r).begins)
    (searches_end ms' s' q' budget' ok' b' e' r').begins
