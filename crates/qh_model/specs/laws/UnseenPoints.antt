-- Points that no facet sees.
use Rattle.std.specs.Prelude.{ℕ}
use Rattle.qh_model.specs.{contract.Weighted.Weighted, contract.Surface.IsBlindTo, contract.Surface.Surface, headline.Sets.In}

-- no live facet sees y
abbrev pub IsUnseen : Surface → (ℕ → Weighted) → Weighted → Type 0
IsUnseen m at y = (f : ℕ) → In f m.live → IsBlindTo m at f y
