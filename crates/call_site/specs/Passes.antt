-- What the clauses say of sites and of their passes.
use Rattle.std.specs.Prelude.{◌≡◌, ℕ, Bool, true, false, List, length, slice_index}
use Rattle.call_site.specs.declared.choice.Level.{Level}
use Rattle.call_site.specs.declared.choice.Level.TheVariants.{Target, Site, Binder, Bind}
use Rattle.call_site.specs.declared.sites.Sites.{Sites}
use Rattle.call_site.specs.declared.sites.SitePass.{SitePass}
use Rattle.call_site.specs.Places.{target_in, ring_in}

-- how many sites there are
abbrev pub site_count : Sites → ℕ
site_count sites = sites.count

-- how many passes a pass knows to have been made: 0 in each but the first, and 1 in one that is alone
abbrev pub made_of : SitePass → ℕ
made_of pass = pass.seat.me.0.made

-- how often it settled
abbrev pub calls_of : SitePass → ℕ
calls_of pass = pass.seat.me.0.calls

-- the words as the pass last wrote them
abbrev pub words_of : SitePass → List ℕ
words_of pass = pass.seat.me.0.words

-- one of these words
abbrev pub word_of : SitePass → ℕ → ℕ
word_of pass word = slice_index (words_of pass) word

-- the target of a site as the pass last wrote it
abbrev pub target_of : SitePass → ℕ → ℕ
target_of pass site = target_in (words_of pass) site

-- the ring of a site as the pass last wrote it, from the word entered last on
abbrev pub ring_of : SitePass → ℕ → List ℕ
ring_of pass site = ring_in (words_of pass) site

-- the pass is one of these sites
abbrev pub IsPassOf : Sites → SitePass → Type 0
IsPassOf sites pass =
    (pass.seat.table_id ≡ sites.table.shared.table_id) × (length (words_of pass) ≡ sites.table.shared.table_id.words)

-- the pass is as before: it is one of the same sites and remembers the same
abbrev pub IsSamePass : SitePass → SitePass → Type 0
IsSamePass old new = (new.seat.table_id ≡ old.seat.table_id) × (new.seat.me.0 ≡ old.seat.me.0)

-- whether a word is entered into the ring at this level
abbrev pub enters : Level → Bool
enters Target = false
enters Site = false
enters Binder = true
enters Bind = true
