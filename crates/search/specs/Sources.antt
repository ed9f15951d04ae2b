-- When the numbers of a search are ready to be asked for.
use Rattle.std.specs.Prelude.{◌≡◌, List, length}
use Rattle.metric.specs.Model.{Model}
use Rattle.patch.specs.Patches.{patch_width}
use Rattle.index.specs.Works.{Ready}
use Rattle.search.specs.declared.reads.View.{View}
use Rattle.search.specs.declared.held.Held.{Held}
use Rattle.search.specs.Walks.{NearTable, TopTable}

-- the store fits its layout, and the query has the length of a patch
pub record Fits (ms : List Model) (v : View) : Type 0 where
  pub ready : Ready ms v.counts v.layout v.store.now
  pub query : length v.query.now ≡ patch_width ms

-- so, and the tables hold the query's distances to the pivots and the channels' greatest distances
pub record Prepared (ms : List Model) (h : Held) : Type 0 where
  pub fits : Fits ms h.view
  pub near : NearTable ms h.view.counts h.view.store.now h.view.query.now h.near
  pub tops : TopTable ms h.tops
