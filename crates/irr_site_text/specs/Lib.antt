pub mod SiteText
