-- The owner (document 01, 'Owner'; 000, 5.3.2.2 and 5.3.3.2.7).
use Rattle.std.specs.Prelude.{ℕ, Bool, cond, not, ◌&&◌, [], ◌==◌}
use Rattle.packets.specs.Path.{kept, same_path}
use Rattle.packets.specs.declared.path.Path.{Path}
use Rattle.unit.specs.declared.owner.Owner.{Owner}

-- Owner means: Device ID not 0, and same initiator address, reply path and link as its claim.
abbrev pub is_owner : Owner → ℕ → Path → ℕ → Bool
is_owner o initiator path link =
    not (o.device == 0) && o.initiator == initiator && same_path o.path path && o.link == link

-- A cleared owner.
abbrev pub unowned : Owner
unowned = record { device = 0; initiator = 0; path = kept []; link = 0 }

-- 0 to non-zero claims; 0 to 0 changes nothing.
abbrev pub claimed : Owner → ℕ → ℕ → Path → ℕ → Owner
claimed o new initiator path link = cond (new == 0) o (record { device = new; initiator = initiator; path = path; link = link })

-- Non-zero to 0 releases and clears the owner; non-zero to non-zero keeps the owner.
abbrev pub reassigned : Owner → ℕ → Owner
reassigned o new = cond (new == 0) unowned (record { device = new; initiator = o.initiator; path = o.path; link = o.link })

-- A swap. Unequal to expected: nothing changes.
unfoldable pub swapped : Owner → ℕ → ℕ → ℕ → Path → ℕ → Owner
swapped o new expected initiator path link =
    cond (o.device == expected) (cond (o.device == 0) (claimed o new initiator path link) (reassigned o new)) o
