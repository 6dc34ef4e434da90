use Rattle.std.proofs.Common.{sym, ap, ◌∙◌}
use Rattle.craq_model.specs.Members.{is_member}
use Rattle.craq_seat.specs.Books.{members_of}
use Rattle.craq_audit.proofs.Tests.{contains_member, member_contains}
use Rattle.craq_audit.proofs.belonging.is_first_member.Goals as goal

pub returns : goal.returns
returns c =
    let ms = members_of c.args.book.now.opening.config in
    let same = c.members_of.ensures ∙ ap (λ o. members_of o.config) c.opening.ensures in
    let is = c.is_among.ensures ∙ ap (λ xs. is_member xs c.args.id) same in (
      λ h. member_contains ms c.args.id (sym is ∙ h),
      λ h. is ∙ contains_member ms c.args.id h,
    )
