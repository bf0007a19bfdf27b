-- Slots for the places of a small box or of a line. Only private functions cite them.
use Rattle.std.specs.Prelude.{ℕ, ◌+◌, ◌-◌, ◌*◌, ◌%◌, ◌^◌}
use Rattle.{qh_model.specs.headline.Vector.Vector, qh_plane.specs.declared.close_points.CloseBox.CloseBox, qh_polygon.specs.contract.PlaceNumbers.biased}

-- the slot of a point, computed with numbers of 64 bits for any box
abbrev pub slot_of : CloseBox → Vector → ℕ
slot_of b p =
    (((biased p.x - b.x) * b.x_factor % 2 ^ 64 + (biased p.y - b.y) * b.y_factor % 2 ^ 64) % 2 ^ 64
    + (biased p.z - b.z) * b.z_factor % 2 ^ 64) % 2 ^ 64
