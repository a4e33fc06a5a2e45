use Rattle.gw_listing.proofs.Adding.{listed}
use Rattle.gw_listing.proofs.parts.listing_of.Goals as goal

pub returns : goal.returns
returns c =
    listed _ _ _ _ _ _ _ _ _ _ _ _ _ c.new-out.ensures.items c.in_ok-put_first_lines.ensures
    (rw c.deref.ensures.value at c.in_ok-put_section.ensures) (rw c.deref-2.ensures.value at c.in_ok-put_section-2.ensures) c.in_ok-put_section-3.ensures
    (rw c.deref-3.ensures.value at c.in_ok-put_procedures.ensures) c.in_ok-put_section-4.ensures
