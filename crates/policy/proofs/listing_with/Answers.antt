-- `listing_with` meets its contract in three cases: permission a replaces the first number or the second, or its group is added.
use mathlib.Core.Path.{sym, ◌∙◌}
use Rattle.policy.proofs.StoreLaws.{ready-first, ready-second, ready-eight}
use Rattle.policy.proofs.listing_with.Goals as goal

pub returns-then-first-second : goal.returns-then-first-second
returns-then-first-second c =
    let pre = c.requires in
    let listing-in = c.listing_in-w in
    let first-in = c.first_in-first in
    ready-first _ _ _ _ listing-in.ensures pre.0 _ first-in.ensures.0 c.second_in-second.ensures.0 c.if-first-second.true
    c.first_anew.ensures

pub returns-then-is_in : goal.returns-then-is_in
returns-then-is_in c =
    let pre = c.requires in
    let listing-in = c.listing_in-w in
    let empty-strays = c.empty_strays in
    ready-eight _ _ _ _ listing-in.ensures pre.0 _ empty-strays.ensures c.eights_anew.ensures

pub returns : goal.returns
returns c =
    let pre = c.requires in
    let listing-in = c.listing_in-w in
    let second-in = c.second_in-second in
    ready-second _ _ _ _ listing-in.ensures pre.0 _ second-in.ensures.0 (sym c.is_in.ensures ∙ c.if-is_in.false)
    c.second_anew.ensures
