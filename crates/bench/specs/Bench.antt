-- What the bench's channels mean.
use Rattle.std.specs.Prelude.{List, [], ◌∷◌}
use Rattle.metric.specs.Model.{Model}
use Rattle.metric.specs.Distances.{city_block, hamming, circular, chebyshev}

-- bands, ink, grain and depth
abbrev pub channels : List Model
channels = city_block 4 ∷ hamming 4 ∷ circular 2 ∷ chebyshev 2 ∷ []
